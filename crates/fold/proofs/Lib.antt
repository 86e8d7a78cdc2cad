mod Asking
mod Chaining
mod Playing
