-- Eight bits with wrap.
use Rattle.std.specs.Prelude.{ℕ, ◌+◌, ◌-◌, ◌%◌, ℤ}
use Rattle.std.specs.Int.{w8}
use Rattle.std.proofs.Common.{to_z}

-- v narrowed to eight bits with wrap, less c narrowed to eight bits with wrap, read as signed
unfoldable pub wrapped : ℕ → ℕ → ℤ
wrapped v c = to_z w8 ((v % 256 + (256 - c % 256)) % 256)
