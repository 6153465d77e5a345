pub mod RecordCodec
pub mod Taking
pub mod Spelled
