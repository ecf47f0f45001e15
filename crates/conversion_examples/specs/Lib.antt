pub mod CodedReading
