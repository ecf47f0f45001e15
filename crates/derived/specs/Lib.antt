pub mod OperationName
pub mod ResourceName
pub mod DatabaseTypes
pub mod Fields
