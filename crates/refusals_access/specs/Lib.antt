pub mod Miscellaneous
