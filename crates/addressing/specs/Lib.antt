pub mod Addressing
pub mod AddressingLaws
