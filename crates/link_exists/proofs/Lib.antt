mod Contents
mod Existence
mod Made
mod Reading
mod Restricting
mod Simples
mod Within
