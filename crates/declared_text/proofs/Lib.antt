mod FirstWords
mod ReadBack
