-- Other threads: a step of another call is an effect of its point or shows the same picture, and what is claimed stays true.
pub mod JointNames
pub mod EffectSteps
pub mod StepViews
pub mod OthersFacts
pub mod SeenSteps
