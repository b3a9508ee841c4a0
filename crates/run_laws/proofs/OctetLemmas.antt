-- No more requests are sent than octets are fed, where there is no parent.
pub mod Below
pub mod Steps
pub mod Heavy
pub mod Putting
pub mod Passing
pub mod NoChildren
pub mod Asking
pub mod Pieces
pub mod Feeding
pub mod Fed
pub mod FewOctets
