mod Law
mod Lists
