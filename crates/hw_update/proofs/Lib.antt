mod BaseLemmas
