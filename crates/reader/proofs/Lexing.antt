-- The bytes of a word.
use Rattle.std.proofs.Common.{◌≡◌, ℕ, ◌+◌, ◌<◌, ◌≤◌, List, length, get_or, drop}
use Rattle.std.proofs.lemmas.List.{at_drop_more, at_drop_all}
use Rattle.reader.specs.Machine.{State, word, reads}

-- the next byte of a word
pub expecting : (ws : List ℕ) (i : ℕ) → i < length ws → (s : State) → reads (drop i ws) s ≡ word (get_or ws i 0) (drop (i + 1) ws) s
expecting ws i h s = at_drop_more (λ l. reads l s) ws i 0 h

pub expected : (ws : List ℕ) (i : ℕ) → length ws ≤ i → (s : State) → reads (drop i ws) s ≡ s
expected ws i h s = at_drop_all (λ l. reads l s) ws i h
