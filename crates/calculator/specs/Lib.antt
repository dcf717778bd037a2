pub mod Laws
pub mod Numbers
pub mod Parse
pub mod Reply
pub mod Run
pub mod Script
pub mod Text
pub mod Verb
