-- Arguments by a mask, written item by item.
use Rattle.std.proofs.Common.{◌≡◌, ℕ, ◌+◌, ◌≤◌, ◌<◌, List, [], ◌∷◌, ◌++◌, length, get_or, set, take, sym, ap, ◌∙◌, arith, add_assoc, take_all}
use Rattle.std.proofs.lemmas.List.{take_more, take_more_set, length-set}
use Rattle.ham_syntax.specs.declared.object.Param.{Param}
use Rattle.ham_witness.specs.declared.ids.Ids.{Ids}
use Rattle.ham_witness.specs.Cases.{arg_of, id_by, one_if_id, count_ids, args_from}

count-append : (ps : List Param) (p : Param) → count_ids (ps ++ p ∷ []) ≡ count_ids ps + one_if_id p.kind
count-append [] p = omega arith
count-append (q ∷ ps) p = ap (λ n. one_if_id q.kind + n) (count-append ps p) ∙ sym (add_assoc (one_if_id q.kind) (count_ids ps) (one_if_id p.kind))

pub count-more : (ps : List Param) (i : ℕ) (p : Param) → i < length ps → p ≡ get_or ps i p → count_ids (take (i + 1) ps) ≡ count_ids (take i ps) + one_if_id p.kind
count-more ps i p lt e = ap count_ids (take_more ps i p lt ∙ ap (λ (q : Param). take i ps ++ q ∷ []) (sym e)) ∙ count-append (take i ps) p

args-append : (ids : Ids) (mask k : ℕ) (ps : List Param) (p : Param) → args_from ids mask k (ps ++ p ∷ []) ≡ args_from ids mask k ps ++ arg_of p.kind (id_by ids mask (k + count_ids ps)) ∷ []
args-append ids mask k [] p = ap (λ n. arg_of p.kind (id_by ids mask n) ∷ []) (omega arith)
args-append ids mask k (q ∷ ps) p =
    ap (λ (rest : List ℕ). arg_of q.kind (id_by ids mask k) ∷ rest)
    (args-append ids mask (k + one_if_id q.kind) ps p
    ∙ ap (λ n. args_from ids mask (k + one_if_id q.kind) ps ++ arg_of p.kind (id_by ids mask n) ∷ []) (add_assoc k (one_if_id q.kind) (count_ids ps)))

-- the first i arguments are written, and the next id has this number
pub record Written (ids : Ids) (mask : ℕ) (ps : List Param) (args : List ℕ) (number i : ℕ) : Type 0 where
  pub front : take i args ≡ args_from ids mask 0 (take i ps)
  pub count : number ≡ count_ids (take i ps)
  pub few : number ≤ i
  pub room : length ps ≤ length args
  pub within : i ≤ length ps

module _ (ids : Ids) (mask : ℕ) (ps : List Param) where
  pub written-more : (args : List ℕ) (number i : ℕ) (p : Param) (arg one : ℕ) → i < length ps → p ≡ get_or ps i p → arg ≡ arg_of p.kind (id_by ids mask number) → one ≡ one_if_id p.kind → one ≤ 1 → Written ids mask ps args number i → Written ids mask ps (set args i arg) (number + one) (i + 1)
  written-more args number i p arg one lt e is is_one small h =
      let within : i < length args = omega (arith, h.room) in
      let more : take (i + 1) ps ≡ take i ps ++ p ∷ [] = take_more ps i p lt ∙ ap (λ (q : Param). take i ps ++ q ∷ []) (sym e) in
      let zero_plus : 0 + count_ids (take i ps) ≡ number = omega (arith, h.count) in
      record {
        front = take_more_set args i arg within ∙ (rw (h.front, is) (ap (λ n. args_from ids mask 0 (take i ps) ++ arg_of p.kind (id_by ids mask n) ∷ []) (sym zero_plus)) ∙ (sym (args-append ids mask 0 (take i ps) p) ∙ ap (args_from ids mask 0) (sym more)));
        count = ap (λ n. n + one) h.count ∙ (ap (λ n. count_ids (take i ps) + n) is_one ∙ sym (count-more ps i p lt e));
        few = omega (arith, h.few);
        room = rw length-set h.room;
        within = omega arith;
      }

  pub written-all : (args : List ℕ) (number i : ℕ) → length ps ≤ i → Written ids mask ps args number i → take (length ps) args ≡ args_from ids mask 0 ps
  written-all args number i le h =
      let all : length ps ≡ i = omega (arith, h.within) in
      let whole : take i ps ≡ ps = take_all i ps (omega arith) in
      rw all (h.front ∙ ap (args_from ids mask 0) whole)
