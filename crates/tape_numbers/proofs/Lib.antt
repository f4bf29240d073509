pub mod Reading
pub mod Sizes
pub mod RoundTrips
pub mod Determined
