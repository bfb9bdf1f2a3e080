mod AsBox
mod Making
mod Many
mod Tested
