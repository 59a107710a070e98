mod Chaining
mod Firsts
mod Listing
mod Ordering
mod Tables
