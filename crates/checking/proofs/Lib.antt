mod Fronts
mod Marking
mod Logic
mod Maps
mod Tables
