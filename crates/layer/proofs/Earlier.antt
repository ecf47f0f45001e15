-- An earlier name in the memory to which a later one was read.
use Rattle.std.proofs.Common.{◌≡◌, ℕ, ◌≤◌, Bool, true, false, cond, List, length, Some, None, Option, sym, refl, ap, ◌∙◌, arith}
use Rattle.std.specs.Option.{option_map}
use Rattle.lent_bytes.specs.Memory.{clip, portion, padded, Placed}
use Rattle.lent_bytes.proofs.Clips.{clip-all}
use Rattle.readers.specs.Reading.{Known, text_of, bytes_of, size_of}
use Rattle.readers.specs.Tables.{entry_for}
use Rattle.readers.specs.Texts.{Filled}
use Rattle.readers.proofs.Entries.{or_some, entry_within}
use Rattle.readers.proofs.Fronts.{portion-padded}
use Rattle.layer.specs.Later.{later_names, earlier_text, earlier_known, earlier_under, is_database_key}

pub placed : (t u x : List ℕ) (w r : ℕ) (out : List ℕ) → w ≡ 4096 → u ≡ t → Some x ≡ entry_for u later_names → Placed w x r out → Filled 4096 (earlier_text t) r out
placed t u x w r out ew eu d p =
    let e : Some x ≡ entry_for t later_names = d ∙ ap (λ v. entry_for v later_names) eu in
    let s : length x ≤ 4096 = entry_within 4096 t later_names x refl e in
    let k : clip w x ≡ x = clip-all w x (omega arith) in
    let i : x ≡ earlier_text t = or_some (entry_for t later_names) x t e in
    record { len = p.len ∙ ap length (k ∙ i); text = p.text ∙ ap (padded w) (k ∙ i) ∙ ap (λ v. padded v (earlier_text t)) ew }

-- a text that was read stands at the front
pub read-front : (o : Option (List ℕ)) (n : ℕ) (out : List ℕ) → Some n ≡ size_of o → out ≡ padded 4096 (bytes_of o) → portion out 0 n ≡ bytes_of o
read-front None n out e f = let z : ◌≡◌ {A = ℕ} 0 1 = cc in absurd (omega arith)
read-front (Some t) n out e f = let i : n ≡ length t = cc in rw (f, i) (portion-padded 4096 t)

pub read-filled : (o : Option (List ℕ)) (n : ℕ) (out : List ℕ) → Some n ≡ size_of o → out ≡ padded 4096 (bytes_of o) → Filled 4096 (portion out 0 n) n out
read-filled None n out e f = let z : ◌≡◌ {A = ℕ} 0 1 = cc in absurd (omega arith)
read-filled (Some t) n out e f =
    let i : n ≡ length t = cc in
    let p : portion out 0 n ≡ t = read-front (Some t) n out e f in
    record { len = i ∙ ap length (sym p); text = f ∙ ap (padded 4096) (sym p) }

-- what is answered of a text, by whether its key names a database system
of_text : (b : Bool) (o : Option (List ℕ)) (n r : ℕ) (out after : List ℕ) → Some n ≡ size_of o → out ≡ padded 4096 (bytes_of o) → Filled 4096 (cond b (earlier_text (portion out 0 n)) (portion out 0 n)) r after → (Some r ≡ size_of (cond b (option_map earlier_text o) o)) × (after ≡ padded 4096 (bytes_of (cond b (option_map earlier_text o) o)))
of_text b None n r out after e f p = let z : ◌≡◌ {A = ℕ} 0 1 = cc in absurd (omega arith)
of_text true (Some t) n r out after e f p =
    let i : portion out 0 n ≡ t = read-front (Some t) n out e f in
    (ap Some (p.len ∙ ap (λ t. length (earlier_text t)) i), p.text ∙ ap (λ t. padded 4096 (earlier_text t)) i)
of_text false (Some t) n r out after e f p =
    let i : portion out 0 n ≡ t = read-front (Some t) n out e f in
    (ap Some (p.len ∙ ap length i), p.text ∙ ap (padded 4096) i)

-- of the resource, and of the span, whose texts may have numbers
pub of_resource : (k : ℕ) (o : Option (List ℕ)) (n r : ℕ) (out after : List ℕ) → Some n ≡ size_of o → out ≡ padded 4096 (bytes_of o) → Filled 4096 (earlier_under k (portion out 0 n)) r after → (Some r ≡ size_of (cond (is_database_key k) (option_map earlier_text o) o)) × (after ≡ padded 4096 (bytes_of (cond (is_database_key k) (option_map earlier_text o) o)))
of_resource k o n r out after e f p = of_text (is_database_key k) o n r out after e f p

text_under : (b : Bool) (o : Option Known) → cond b (option_map earlier_text (text_of o)) (text_of o) ≡ text_of (cond b (option_map earlier_known o) o)
text_under true None = refl
text_under true (Some k) = refl
text_under false o = refl

pub of_span : (k : ℕ) (o : Option Known) (n r : ℕ) (out after : List ℕ) → Some n ≡ size_of (text_of o) → out ≡ padded 4096 (bytes_of (text_of o)) → Filled 4096 (earlier_under k (portion out 0 n)) r after → (Some r ≡ size_of (text_of (cond (is_database_key k) (option_map earlier_known o) o))) × (after ≡ padded 4096 (bytes_of (text_of (cond (is_database_key k) (option_map earlier_known o) o))))
of_span k o n r out after e f p = rw (← text_under (is_database_key k) o) (of_text (is_database_key k) (text_of o) n r out after e f p)
