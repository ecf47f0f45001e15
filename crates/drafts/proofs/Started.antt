-- The header of a draft that starts, put together.
use Rattle.std.proofs.Common.{◌≡◌, ℕ, ◌+◌, List, ◌++◌, length, replicate, sym, refl, ap, ◌∙◌, append_assoc, length-append}
use Rattle.lent_bytes.specs.Memory.{written}
use Rattle.lent_bytes.proofs.Frames.{written_append}
use Rattle.drafts.specs.Calls.{Opening}
use Rattle.blocks.specs.Layout.{row_place}
use Rattle.drafts.specs.Writes.{head_bytes, opening_texts, started}
use Rattle.drafts.specs.Code.{numbered, identified, placed}

abbrev used_by : Opening → ℕ
used_by o = length o.name + (length o.trace_state + (length o.scope_name + length o.scope_version))

head-written : (o : Opening) → placed (identified (numbered (replicate 120 0) o (used_by o)) o) o ≡ head_bytes o
unfolding written
head-written o = refl

texts-length : (o : Opening) → length (opening_texts o) ≡ used_by o
texts-length o = simp length-append

pub head_is : (o : Opening) → placed (identified (numbered (replicate 120 0) o (length (opening_texts o))) o) o ≡ head_bytes o
head_is o = ap (λ u. placed (identified (numbered (replicate 120 0) o u) o) o) (texts-length o) ∙ head-written o

-- two pairs of texts are four texts
pub texts-behind : (m : List ℕ) (at b : ℕ) (o : Opening) → b ≡ at + (length o.name + length o.trace_state)
    → written (written m at (o.name ++ o.trace_state)) b (o.scope_name ++ o.scope_version) ≡ written m at (opening_texts o)
texts-behind m at b o e =
    let l : b ≡ at + length (o.name ++ o.trace_state) = e ∙ ap (λ n. at + n) (sym (length-append o.name o.trace_state)) in
    let p = written_append m at (o.name ++ o.trace_state) (o.scope_name ++ o.scope_version) in
    let q = append_assoc o.name o.trace_state (o.scope_name ++ o.scope_version) in
    cc

-- zeros, the header and the texts
pub started_is : (n : ℕ) (o : Opening) (z h w p : List ℕ) → z ≡ replicate n 0 → h ≡ head_bytes o → w ≡ written z 0 h → p ≡ written w (row_place o.capacity) (opening_texts o) → p ≡ started n o
unfolding started
started_is n o z h w p a b c d = d ∙ ap (λ x. written x (row_place o.capacity) (opening_texts o)) (c ∙ ap (λ x. written x 0 h) a ∙ ap (λ x. written (replicate n 0) 0 x) b)
