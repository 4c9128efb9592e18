pub mod StagedTurns
pub mod DeliveredReplies
pub mod ReplyPlaces
pub mod MachineSteps
pub mod HeldCounts
