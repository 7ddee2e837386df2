mod Picked
mod Lawful
