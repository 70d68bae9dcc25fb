-- The kinds of bytes of a manifest.
use Rattle.std.specs.Prelude.{ℕ, Bool, not, ◌&&◌, ◌||◌, ◌==◌, nat_le}

-- space, tab, CR or LF
abbrev pub blank : ℕ → Bool
blank b = b == 32 || b == 9 || b == 13 || b == 10

abbrev pub from_to : ℕ → ℕ → ℕ → Bool
from_to low high b = nat_le low b && nat_le b high

-- a byte that a name begins with: a letter, ':' or '_'
abbrev pub begins : ℕ → Bool
begins b = from_to 97 122 b || from_to 65 90 b || b == 58 || b == 95

-- a byte that a name goes on with: these, digits, '-' and '.'
abbrev pub goes : ℕ → Bool
goes b = begins b || from_to 48 57 b || b == 45 || b == 46

-- a double or single quote
abbrev pub quotes : ℕ → Bool
quotes b = b == 34 || b == 39

-- a byte that passes in a comment: none below 32 but blanks
abbrev pub visible : ℕ → Bool
visible b = nat_le 32 b || blank b

-- a byte that passes in the declaration: as in a comment, and none above 127
abbrev pub ascii : ℕ → Bool
ascii b = visible b && nat_le b 127

-- a byte of a text: as in a comment, but neither '<' nor '&'
abbrev pub textual : ℕ → Bool
textual b = not (b == 60) && (not (b == 38) && visible b)

-- a byte of a value between the quotes q
abbrev pub plain : ℕ → ℕ → Bool
plain q b = not (b == q) && textual b
