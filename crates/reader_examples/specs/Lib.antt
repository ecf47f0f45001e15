pub mod BareReading
