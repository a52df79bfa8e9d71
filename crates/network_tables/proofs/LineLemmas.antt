-- The line from a node to a neighbour of it, with its ports.
use Rattle.std.proofs.Common.{◌≡◌, ℕ, suc, ◌+◌, ◌*◌, Bool, true, false, cond, ◌==◌, ◌||◌, List, [], ◌∷◌, ◌++◌, length, Option, Some, None, refl, ap, sym, ◌∙◌, subst, arith, append_assoc, add-one, is_some, slice_get, option_map, option_and_then, eqb-true, append-nil}
use Rattle.std.specs.List.{list_any}
use Rattle.std.proofs.lemmas.Bool.{false≢true}
use Rattle.std.proofs.lemmas.Bool.Decides.{nat_tests}
use Rattle.network.specs.declared.wiring.Link.{Link}
use Rattle.network.specs.declared.wiring.LinePlan.{LinePlan}
use Rattle.network.specs.Words.{each_after, place_by, Plan, NodePlan, goes, joins, is_linked, is_no_link, link_between, port_at, directions, lines_of, line_at, line_between}
use Rattle.network_tables.specs.PortLaws.{Faces}
use Rattle.network.proofs.PlaceLemmas.{is_some-place_by}
use Rattle.network_faults.proofs.JoinLemmas.{goes-true, ||-flip, link_between-flip}
use Rattle.network_tables.proofs.HopLemmas.{or-left, or-right}

-- the line goes from the one node to the other, over the link in this place behind the earlier ones
record IsLine (nodes : List NodePlan) (earlier links : List Link) (x y place : ℕ) : Type 0 where
  before : List Link
  link : Link
  behind : List Link
  split : links ≡ before ++ link ∷ behind
  there : slice_get links place ≡ Some link
  joined : joins x y link ≡ true
  line : LinePlan
  read : slice_get (each_after (directions nodes) earlier links) (line_at place x link) ≡ Some line
  from : line.from ≡ x
  to : line.to ≡ y
  out : line.from_port ≡ port_at nodes (earlier ++ before) x y
  in' : line.to_port ≡ port_at nodes (earlier ++ before) y x

-- one of the two lines of a link that joins the nodes
record IsLineOfLink (nodes : List NodePlan) (earlier : List Link) (link : Link) (later : List LinePlan) (x y : ℕ) : Type 0 where
  line : LinePlan
  read : slice_get (directions nodes earlier link ++ later) (cond (link.a == x) 0 1) ≡ Some line
  from : line.from ≡ x
  to : line.to ≡ y
  out : line.from_port ≡ port_at nodes earlier x y
  in' : line.to_port ≡ port_at nodes earlier y x

line-of-link : (nodes : List NodePlan) (earlier : List Link) (link : Link) (later : List LinePlan) (x y : ℕ) → joins x y link ≡ true → IsLineOfLink nodes earlier link later x y
line-of-link nodes earlier link later x y joined = go (link.a == x) refl (goes x y link) refl (goes y x link) refl joined
  where
    forth : link.a ≡ x → link.b ≡ y → (link.a == x) ≡ true → IsLineOfLink nodes earlier link later x y
    forth a b e = record {
      line = record { from = link.a; from_port = port_at nodes earlier link.a link.b; to = link.b; to_port = port_at nodes earlier link.b link.a; byte_ns = link.byte_ns; propagation_ns = link.propagation_ns };
      read = rw e refl;
      from = a;
      to = b;
      out = rw (a, b) refl;
      in' = rw (a, b) refl;
    }

    back : link.a ≡ y → link.b ≡ x → (link.a == x) ≡ false → IsLineOfLink nodes earlier link later x y
    back a b e = record {
      line = record { from = link.b; from_port = port_at nodes earlier link.b link.a; to = link.a; to_port = port_at nodes earlier link.a link.b; byte_ns = link.byte_ns; propagation_ns = link.propagation_ns };
      read = rw e refl;
      from = b;
      to = a;
      out = rw (a, b) refl;
      in' = rw (a, b) refl;
    }

    go : (first : Bool) → (link.a == x) ≡ first → (one : Bool) → goes x y link ≡ one → (two : Bool) → goes y x link ≡ two → (one || two) ≡ true → IsLineOfLink nodes earlier link later x y
    go first e true f two g h = let same = goes-true x y link f in
        let here : (link.a == x) ≡ true = grind (arith, nat_tests) in forth same.0 same.1 here
    go true e false f true g h = let same = goes-true y x link g in
        let a_is : link.a ≡ x = eqb-true link.a x e in forth a_is (same.1 ∙ sym a_is ∙ same.0) e
    go false e false f true g h = let same = goes-true y x link g in back same.0 same.1 e
    go first e false f false g h = absurd (false≢true h)

-- the lines of a later link stand two places further on
further : (place d : ℕ) → 2 * (place + 1) + d ≡ suc (suc (2 * place + d))
further place d = omega arith

line-there : (nodes : List NodePlan) (earlier links : List Link) (x y place : ℕ) → place_by (joins x y) links ≡ Some place → IsLine nodes earlier links x y place
line-there nodes earlier [] x y place found = absurd (cc)
line-there nodes earlier (link ∷ links) x y place found = go (joins x y link) refl (place_by (joins x y) links) refl (λ q f. line-there nodes (earlier ++ link ∷ []) links x y q f) found
  where
    here : joins x y link ≡ true → IsLine nodes earlier (link ∷ links) x y 0
    here joined =
        let d = line-of-link nodes earlier link (each_after (directions nodes) (earlier ++ link ∷ []) links) x y joined in
        let place_is : 2 * 0 + cond (link.a == x) 0 1 ≡ cond (link.a == x) 0 1 = omega arith in
        record {
          before = [];
          link = link;
          behind = links;
          split = refl;
          there = refl;
          joined = joined;
          line = d.line;
          read = ap (slice_get (each_after (directions nodes) earlier (link ∷ links))) place_is ∙ d.read;
          from = d.from;
          to = d.to;
          out = d.out ∙ ap (λ es. port_at nodes es x y) (sym (append-nil earlier));
          in' = d.in' ∙ ap (λ es. port_at nodes es y x) (sym (append-nil earlier));
        }

    behind : (q : ℕ) → IsLine nodes (earlier ++ link ∷ []) links x y q → IsLine nodes earlier (link ∷ links) x y (q + 1)
    behind q later =
        record {
          before = link ∷ later.before;
          link = later.link;
          behind = later.behind;
          split = ap (λ ls. link ∷ ls) later.split;
          there = ap (slice_get (link ∷ links)) (add-one q) ∙ later.there;
          joined = later.joined;
          line = later.line;
          read = ap (slice_get (each_after (directions nodes) earlier (link ∷ links))) (further q (cond (later.link.a == x) 0 1)) ∙ later.read;
          from = later.from;
          to = later.to;
          out = later.out ∙ ap (λ es. port_at nodes es x y) (append_assoc earlier (link ∷ []) later.before);
          in' = later.in' ∙ ap (λ es. port_at nodes es y x) (append_assoc earlier (link ∷ []) later.before);
        }

    go : (first : Bool) → joins x y link ≡ first → (o : Option ℕ) → place_by (joins x y) links ≡ o
        → ((q : ℕ) → place_by (joins x y) links ≡ Some q → IsLine nodes (earlier ++ link ∷ []) links x y q) → cond first (Some 0) (option_map (λ n. n + 1) o) ≡ Some place → IsLine nodes earlier (link ∷ links) x y place
    go true e o f later is = let place_is : 0 ≡ place = cc in subst (IsLine nodes earlier (link ∷ links) x y) place_is (here e)
    go false e None f later is = absurd (cc)
    go false e (Some q) f later is = let place_is : q + 1 ≡ place = cc in subst (IsLine nodes earlier (link ∷ links) x y) place_is (behind q (later q f))

-- ---- the lines of a network

-- line k leads from the one node to the other, and its ports face them
pub record IsLineOf (plan : Plan) (x y k : ℕ) : Type 0 where
  pub line : LinePlan
  pub read : slice_get (lines_of plan) k ≡ Some line
  pub from : line.from ≡ x
  pub to : line.to ≡ y
  pub out : Faces plan x line.from_port y
  pub in' : Faces plan y line.to_port x

pub line-of : (plan : Plan) (x y k : ℕ) → line_between plan.links x y ≡ Some k → IsLineOf plan x y k
line-of plan x y k found = go (link_between plan.links x y) refl found
  where
    go : (o : Option ℕ) → link_between plan.links x y ≡ o → option_and_then (λ place. option_map (line_at place x) (slice_get plan.links place)) o ≡ Some k → IsLineOf plan x y k
    go None e is = absurd (cc)
    go (Some place) e is =
        let h = line-there plan.nodes [] plan.links x y place e in
        let at : Some (line_at place x h.link) ≡ Some k = ap (option_map (line_at place x)) (sym h.there) ∙ is in
        let k_is : line_at place x h.link ≡ k = cc in
        record {
          line = h.line;
          read = ap (slice_get (lines_of plan)) (sym k_is) ∙ h.read;
          from = h.from;
          to = h.to;
          out = record { earlier = h.before; link = h.link; later = h.behind; links = h.split; joined = h.joined; number = h.out };
          in' = record { earlier = h.before; link = h.link; later = h.behind; links = h.split; joined = ||-flip (goes y x h.link) (goes x y h.link) ∙ h.joined; number = h.in' };
        }

-- nodes that a link joins have a line
pub has-line : (plan : Plan) (x y place : ℕ) → link_between plan.links x y ≡ Some place → (k : ℕ) × (line_between plan.links x y ≡ Some k)
has-line plan x y place found =
    let h = line-there plan.nodes [] plan.links x y place found in
    (line_at place x h.link, ap (option_and_then (λ place. option_map (line_at place x) (slice_get plan.links place))) found ∙ ap (option_map (line_at place x)) h.there)

pub linked-place : (links : List Link) (x y : ℕ) → is_linked links x y ≡ true → (place : ℕ) × (link_between links x y ≡ Some place)
linked-place links x y linked = go (link_between links x y) refl (is_some-place_by (joins x y) links ∙ linked)
  where
    go : (o : Option ℕ) → link_between links x y ≡ o → is_some o ≡ true → (place : ℕ) × (link_between links x y ≡ Some place)
    go None e h = absurd (false≢true h)
    go (Some place) e h = (place, e)

-- ---- where no two links join the same nodes, one port faces a node

-- the link behind these is one that may be, and none of them joins its nodes
pub record IsGoodLink (nodes : List NodePlan) (earlier : List Link) (link : Link) : Type 0 where
  pub may : is_no_link nodes earlier link ≡ false
  pub apart : is_linked earlier link.a link.b ≡ false

abbrev pub AreLinks : Plan → Type 0
AreLinks plan = (earlier : List Link) (link : Link) (later : List Link) → plan.links ≡ earlier ++ link ∷ later → IsGoodLink plan.nodes earlier link

-- the first one that passes has this place
front-place : {X : Type 0} (test : X → Bool) (earlier : List X) (x : X) (later : List X) → list_any test earlier ≡ false → test x ≡ true → place_by test (earlier ++ x ∷ later) ≡ Some (length earlier)
front-place test [] x later none passed = rw passed refl
front-place test (y ∷ ys) x later none passed =
    rw (or-left (test y) (list_any test ys) none, front-place test ys x later (or-right (test y) (list_any test ys) none) passed) (ap Some (add-one (length ys)))

linked-flip : (links : List Link) (x y : ℕ) → is_linked links x y ≡ is_linked links y x
linked-flip links x y = sym (is_some-place_by (joins x y) links) ∙ ap is_some (link_between-flip links x y) ∙ is_some-place_by (joins y x) links

none-joins : (earlier : List Link) (link : Link) (x y : ℕ) → is_linked earlier link.a link.b ≡ false → joins x y link ≡ true → is_linked earlier x y ≡ false
none-joins earlier link x y apart joined = go (goes x y link) refl (goes y x link) refl joined
  where
    go : (one : Bool) → goes x y link ≡ one → (two : Bool) → goes y x link ≡ two → (one || two) ≡ true → is_linked earlier x y ≡ false
    go true e two f h = let same = goes-true x y link e in
        ap (λ n. is_linked earlier n y) (sym same.0) ∙ ap (is_linked earlier link.a) (sym same.1) ∙ apart
    go false e true f h = let same = goes-true y x link f in
        linked-flip earlier x y ∙ ap (λ n. is_linked earlier n x) (sym same.0) ∙ ap (is_linked earlier link.a) (sym same.1) ∙ apart
    go false e false f h = absurd (false≢true h)

pub faced-place : (plan : Plan) (x port y : ℕ) → AreLinks plan → (faces : Faces plan x port y) → link_between plan.links x y ≡ Some (length faces.earlier)
faced-place plan x port y links faces =
    ap (λ ls. link_between ls x y) faces.links
    ∙ front-place (joins x y) faces.earlier faces.link faces.later
    (none-joins faces.earlier faces.link x y (links faces.earlier faces.link faces.later faces.links).apart faces.joined) faces.joined

-- two fronts of one list that are as long are the same
same-front : (xs ys : List Link) (x y : Link) (xs' ys' : List Link) → xs ++ x ∷ xs' ≡ ys ++ y ∷ ys' → length xs ≡ length ys → xs ≡ ys
same-front [] [] x y xs' ys' same long = refl
same-front [] (z ∷ zs) x y xs' ys' same long = absurd (omega (arith, long))
same-front (z ∷ zs) [] x y xs' ys' same long = absurd (omega (arith, long))
same-front (z ∷ zs) (w ∷ ws) x y xs' ys' same long =
    let head : z ≡ w = cc in
    let tail : zs ++ x ∷ xs' ≡ ws ++ y ∷ ys' = cc in
    let rest : zs ≡ ws = same-front zs ws x y xs' ys' tail (omega (arith, long)) in
    cc

pub one-port : (plan : Plan) (x p q y : ℕ) → AreLinks plan → Faces plan x p y → Faces plan x q y → p ≡ q
one-port plan x p q y links one other =
    let places : Some (length one.earlier) ≡ Some (length other.earlier) = sym (faced-place plan x p y links one) ∙ faced-place plan x q y links other in
    let long : length one.earlier ≡ length other.earlier = cc in
    let fronts : one.earlier ≡ other.earlier = same-front one.earlier other.earlier one.link other.link one.later other.later (sym one.links ∙ other.links) long in
    one.number ∙ ap (λ es. port_at plan.nodes es x y) fronts ∙ sym other.number
