mod Lists
mod Caps
mod Numbers
