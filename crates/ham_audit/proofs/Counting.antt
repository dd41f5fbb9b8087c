-- How many calls all logs have.
use Rattle.std.proofs.Common.{◌≡◌, ◌++◌, ℕ, ◌+◌, ◌-◌, ◌^◌, ◌<◌, ◌≤◌, zero, suc, List, [], ◌∷◌, length, length-append, map, drop, get_or, sym, subst, ap, ◌∙◌, arith}
use Rattle.std.proofs.lemmas.List.{length-map}
use Rattle.ham_records.specs.declared.records.Logged.{Logged}
use Rattle.ham_audit.specs.Records.{log_of, places, every_place}
use Rattle.ham_audit.proofs.Indexing.{log_at}

dropped : (logs : List (List Logged)) (i : ℕ) (log : List Logged) → i < length logs → log ≡ get_or logs i log → drop i logs ≡ log ∷ drop (i + 1) logs
dropped [] i log h q = absurd (omega arith)
dropped (x ∷ logs) zero log h q = ap (λ z. z ∷ logs) (sym q)
dropped (x ∷ logs) (suc i) log h q = let k : suc (i + 1) ≡ suc i + 1 = omega arith in dropped logs i log (omega arith) q ∙ ap (λ n. log ∷ drop n (x ∷ logs)) k

pub every_here : (logs : List (List Logged)) (i : ℕ) (log : List Logged) → i < length logs → log ≡ get_or logs i log →
    length (every_place (drop i logs)) ≡ length log + length (every_place (drop (i + 1) logs))
every_here logs i log h q =
    ap (λ (l : List (List Logged)). length (every_place l)) (dropped logs i log h q)
    ∙ length-append (places log) (every_place (drop (i + 1) logs))
    ∙ ap (λ n. n + length (every_place (drop (i + 1) logs))) (length-map log (λ (e : Logged). e.place))

pub log_few : (logs : List (List Logged)) (i : ℕ) (log : List Logged) → ((r : ℕ) → length (log_of logs r) ≤ 2 ^ 24) → i < length logs → log ≡ get_or logs i log → length log ≤ 2 ^ 24
log_few logs i log few h q =
    let k : i + 1 - 1 ≡ i = omega arith in
    subst (λ l. length l ≤ 2 ^ 24) (sym (log_at logs (i + 1) log (omega arith) (omega arith) (q ∙ ap (λ n. get_or logs n log) (sym k)))) (few (i + 1))
