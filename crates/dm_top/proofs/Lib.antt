mod Gathering
mod KeyLemmas
mod Laws
mod Merging
mod OrderLemmas
mod PlaceLemmas
mod Showing
