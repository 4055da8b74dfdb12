pub mod Hex
pub mod HexLaws
