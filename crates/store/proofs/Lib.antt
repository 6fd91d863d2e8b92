mod Lists
mod Ordered
mod PastList
mod Relisting
