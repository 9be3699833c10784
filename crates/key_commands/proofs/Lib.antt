mod Marks
mod Objects
mod Told
mod FoundFiles
mod Tells
