-- What a command takes at once: a unit, or as many bytes of a spannable value as fit.
use Rattle.std.specs.Prelude.{ℕ, ◌+◌, ◌-◌, min, cond, List, leb, ltb, length}
use Rattle.model.specs.declared.Head.{Head}
use Rattle.model.specs.declared.Header.{Header}
use Rattle.model.specs.declared.Header.TheVariants.{Torn, Whole}
use Rattle.model.specs.Header.{header_of}
use Rattle.model.specs.Order.{spannable}
use Rattle.order_cuts.specs.declared.Portion.{Portion}

-- a unit of n bytes, behind which `inside` bytes of a spannable value come; none where it doesn't fit
unfoldable pub unit_portion : ℕ → ℕ → ℕ → Portion
unit_portion n room inside = cond (leb n room) (record { taken = n; inside = inside })
    (record { taken = 0; inside = 0 })

-- a grouping's first unit, of an order that has `left` bytes left
unfoldable pub grouping_portion : Head → ℕ → ℕ → Portion
grouping_portion h left room =
    cond (spannable h.tag) (unit_portion h.size room h.len)
    (unit_portion (h.size + min h.len (left - h.size)) room 0)

abbrev pub head_portion : Header → ℕ → ℕ → Portion
head_portion Torn left room = unit_portion left room 0
head_portion (Whole h) left room = grouping_portion h left room

-- bytes of a value that has `inside` to come, in bulk
abbrev pub inside_portion : ℕ → ℕ → ℕ → Portion
inside_portion inside left room = let k = min (min inside room) left in record { taken = k; inside = inside - k }

-- of what the order has left, of which the first `inside` bytes are a spannable value's, into a command with this
-- much room
unfoldable pub portion_of : List ℕ → ℕ → ℕ → Portion
portion_of rest inside room = cond (ltb 0 inside) (inside_portion inside (length rest) room)
    (head_portion (header_of rest) (length rest) room)
