pub mod PlaneBytes
