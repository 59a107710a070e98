pub mod Making
pub mod Octets
pub mod Sounding
pub mod SoTold
pub mod Telling
pub mod Writing
pub mod XmlTexts
