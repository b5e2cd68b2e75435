mod PointerLemmas
