mod Told
mod Ends
mod Feeds
mod Gathered
mod Parts
mod Ways
