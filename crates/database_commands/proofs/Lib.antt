mod Extensions
mod NewStores
mod Told
