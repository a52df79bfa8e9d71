mod Emptied
mod Limit
mod Listing
mod UsedUp
