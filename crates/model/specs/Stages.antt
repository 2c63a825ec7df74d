-- What is left of a grouping's rules (Rules.grouping), from each of them on.
use Rattle.std.specs.Prelude.{ℕ, ◌-◌, List, length, drop}
use Rattle.model.specs.declared.Head.{Head}
use Rattle.model.specs.Rules.{Rule, ◌>>=◌, ◌>>◌, rule_b, rule_c, rule_d, rule_e, rule_f, rule_g, rule_h}

abbrev pub from_g : ℕ → ℕ → Head → List ℕ → Rule (List ℕ)
from_g capacity row h bytes = do
  rule_g row h.len (length bytes - h.size)
  rule_h capacity row h (drop h.size bytes)

abbrev pub from_f : ℕ → ℕ → ℕ → Head → List ℕ → Rule (List ℕ)
from_f capacity row room h bytes = do
  rule_f row room h.len
  from_g capacity row h bytes

abbrev pub from_e : ℕ → ℕ → Head → List ℕ → Rule (List ℕ)
from_e capacity row h bytes = do
  room ← rule_e row h.tag
  from_f capacity row room h bytes

abbrev pub from_d : ℕ → Head → List ℕ → Rule (List ℕ)
from_d capacity h bytes = do
  row ← rule_d h.tag
  from_e capacity row h bytes

abbrev pub from_c : ℕ → Head → List ℕ → Rule (List ℕ)
from_c capacity h bytes = do
  rule_c
  from_d capacity h bytes

abbrev pub from_b : ℕ → ℕ → ℕ → Head → List ℕ → Rule (List ℕ)
from_b capacity n p1 h bytes = do
  rule_b n p1 bytes h
  from_c capacity h bytes
