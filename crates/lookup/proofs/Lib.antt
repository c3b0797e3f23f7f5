mod Gates
mod Lookups
