mod Words
mod Meets
mod Looks
