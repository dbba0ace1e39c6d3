-- When one mapping decides throughout a range of virtual addresses.
use Rattle.std.specs.Prelude.{ℕ, Bool, ◌&&◌, nat_lt}
use Rattle.ranges.specs.Ranges.{meet}
use Rattle.ranges.specs.declared.Mapping.{Mapping}

-- a smaller mapping meets the s addresses from a on
unfoldable pub splits : ℕ → ℕ → Mapping → Mapping → Bool
splits a s m n = nat_lt n.size m.size && meet a s n.virt n.size
