mod ListLemmas
mod ToldLemmas
mod LogLemmas
mod OrderLemmas
mod PieceLemmas
