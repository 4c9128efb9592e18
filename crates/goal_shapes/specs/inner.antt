-- What implementations of traits cite besides definitions.
pub mod Framing
