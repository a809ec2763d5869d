pub mod PendingCalls
pub mod Listings
pub mod SetStates
pub mod AccountTraces
pub mod AccountedSteps
pub mod RunAccounts
