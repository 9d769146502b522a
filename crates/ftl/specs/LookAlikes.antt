-- Characters that look like another, or like nothing.
use Rattle.std.specs.Prelude.{ℕ, Bool, ◌==◌, ◌||◌, ◌&&◌, nat_lt}

-- one that looks like a space, or like nothing: the tab, and control characters, apart
abbrev pub is_unseen : ℕ → Bool
is_unseen c =
    c == 0xA0 || c == 0x1680 || (nat_lt 0x1FFF c && nat_lt c 0x2010) || c == 0x2028 || c == 0x2029 || c == 0x202F ||
    c == 0x205F || c == 0x3000 || c == 0xFEFF
