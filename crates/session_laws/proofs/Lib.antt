pub mod LaterPasts
pub mod PhasesSay
pub mod FinishedTold
pub mod FloorsCover
pub mod LeftBefore
pub mod SessionOrders
pub mod SessionRuns
