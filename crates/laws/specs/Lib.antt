pub mod Tests
pub mod Lists
pub mod Places
pub mod Signs
