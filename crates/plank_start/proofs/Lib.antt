pub mod StartTests
