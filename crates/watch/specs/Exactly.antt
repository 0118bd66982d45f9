-- Two facts that stand or fall together. Assumes nothing.

pub record Exactly (P Q : Type 0) : Type 0 where
  pub then : P → Q
  pub back : Q → P
