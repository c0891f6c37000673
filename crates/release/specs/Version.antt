-- The version that the library answers with.
use Rattle.std.specs.Prelude.{ℕ}

-- 10,000 times the major number, 100 times the minor one and the patch number: 0.8.0. CHANGELOG.md says when each moves
abbrev pub version : ℕ
version = 800
