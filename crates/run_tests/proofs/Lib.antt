mod RunEndLemmas
