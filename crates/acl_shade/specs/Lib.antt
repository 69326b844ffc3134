pub mod Shading
pub mod ComputableShading
pub mod Deletions
pub mod ShadedPlaces
pub mod Sifting
pub mod Marking
pub mod SeenNumbers
pub mod Sizes
