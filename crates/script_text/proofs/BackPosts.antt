-- The canonical lines of posts read back.
use Rattle.std.proofs.Common.{◌≡◌, ℕ, ◌<◌, ◌≤◌, ◌^◌, ◌||◌, ◌==◌, List, [], ◌∷◌, Bool, true, false, Some, nat_le, refl, inl, inr, arith}
use Rattle.std.specs.Prelude.{codes, map, zip}
use Rattle.std.proofs.lemmas.Bool.{leb-true, eqb-true}
use Rattle.std.proofs.lemmas.Bool.Decides.{leb_tells}
use Rattle.serde_json.specs.Data.{Data, string, object, no_members, member}
use Rattle.obstruction_shapes.specs.declared.shapes.Shape.{Shape}
use Rattle.obstruction_shapes.specs.declared.shapes.Shape.TheVariants.{Unit as UnitShape, Square as SquareShape}
use Rattle.posts.specs.declared.posts.Post.{Post}
use Rattle.posts.specs.declared.edits.Edit.TheVariants.{Add, Remove, Move}
use Rattle.posts.specs.declared.posts.Post.TheVariants.{Edit as Edits, Ask as Asks}
use Rattle.posts.specs.declared.posts.Request.TheVariants.{Path, Region}
use Rattle.script_text.specs.Canon.{whole_json, decimals_json, object_json, goal_json, add_form, post_json, is_post_of}
use Rattle.script_text.specs.Table.{key_text, keys_by}
use Rattle.script_text.specs.Forms.{post_of}
use Rattle.script_text.specs.Grammar.{IsObject, IsPostLine, rectangle_decimals, shape_decimals}
use Rattle.script_text.specs.ReadsBack.{AreFixed, IsPostValue}
use Rattle.script_text.proofs.BackForms.{ReadsTo}
use Rattle.script_text.proofs.BackTexts.{IsSimple, sorted, text-name, reads_sorted}
use Rattle.script_text.proofs.GrammarPosts.{post-from}
use Rattle.script_text.proofs.BackValues.{simple_decimals, says_decimals, small}
use Rattle.script_text.proofs.GoalTable.{simple_goal, says_goal}

-- ---- objects, with their keys in one order and their members in another

two_keys : (k l : List ℕ) (d e : Data) → IsObject (k ∷ l ∷ []) (d ∷ e ∷ []) (object (member k d (member l e no_members)))
two_keys k l d e = record {
  members = member k d (member l e no_members);
  is = refl;
  are = (no_members, member l e no_members, refl, (no_members, no_members, refl, refl));
}

three_keys : (k l m : List ℕ) (d e f : Data)
    → IsObject (k ∷ l ∷ m ∷ []) (d ∷ e ∷ f ∷ []) (object (member k d (member l e (member m f no_members))))
three_keys k l m d e f = record {
  members = member k d (member l e (member m f no_members));
  is = refl;
  are = (no_members, member l e (member m f no_members), refl, (no_members, member m f no_members, refl, (no_members, no_members, refl, refl)));
}

-- the first of three keys stands second, and the third first
last_first : (k l m : List ℕ) (d e f : Data)
    → IsObject (k ∷ l ∷ m ∷ []) (d ∷ e ∷ f ∷ []) (object (member m f (member k d (member l e no_members))))
last_first k l m d e f = record {
  members = member m f (member k d (member l e no_members));
  is = refl;
  are = (member m f no_members, member l e no_members, refl, (member m f no_members, no_members, refl, (no_members, no_members, refl, refl)));
}

-- the second key stands first
second_first : (k l m : List ℕ) (d e f : Data)
    → IsObject (k ∷ l ∷ m ∷ []) (d ∷ e ∷ f ∷ []) (object (member l e (member k d (member m f no_members))))
second_first k l m d e f = record {
  members = member l e (member k d (member m f no_members));
  is = refl;
  are = (member l e no_members, member m f no_members, refl, (no_members, member m f no_members, refl, (no_members, no_members, refl, refl)));
}

-- and the last key before the third
with_mask : (k l m n : List ℕ) (d e f g : Data)
    → IsObject (k ∷ l ∷ m ∷ n ∷ []) (d ∷ e ∷ f ∷ g ∷ []) (object (member l e (member k d (member n g (member m f no_members)))))
with_mask k l m n d e f g = record {
  members = member l e (member k d (member n g (member m f no_members)));
  is = refl;
  are = (member l e no_members, member n g (member m f no_members), refl, (no_members, member n g (member m f no_members), refl, (member n g no_members, no_members, refl, (no_members, no_members, refl, refl))));
}

-- the second key stands last
second_last : (k l m n : List ℕ) (d e f g : Data)
    → IsObject (k ∷ l ∷ m ∷ n ∷ []) (d ∷ e ∷ f ∷ g ∷ []) (object (member k d (member m f (member n g (member l e no_members)))))
second_last k l m n d e f g = record {
  members = member k d (member m f (member n g (member l e no_members)));
  is = refl;
  are = (no_members, member m f (member n g (member l e no_members)), refl, (member m f (member n g no_members), no_members, refl, (no_members, member n g no_members, refl, (no_members, no_members, refl, refl))));
}

-- ---- add lines

-- the value of an add line, with a mask or without one
abbrev add_json : Bool → ℕ → ℕ → ℕ → Shape → Data
add_json masked caller id mask shape = object_json (
    zip (map key_text (keys_by masked (add_form shape)))
    (whole_json caller ∷ whole_json id ∷ decimals_json (shape_decimals shape) ∷ whole_json mask ∷ []))

simple_add : (masked : Bool) (caller id mask : ℕ) (shape : Shape) → caller < 2 ^ 64 → id < 2 ^ 64 → mask < 2 ^ 64 → AreFixed (shape_decimals shape)
    → IsSimple (add_json masked caller id mask shape) 8
simple_add true caller id mask (UnitShape x z half) c i m fixed =
    ((refl, refl), c, ((refl, refl), i, ((refl, refl), simple_decimals (x ∷ z ∷ half ∷ []) 6 fixed, ((refl, refl), m, tt))))
simple_add true caller id mask (SquareShape r) c i m fixed =
    ((refl, refl), c, ((refl, refl), i, ((refl, refl), simple_decimals (rectangle_decimals r) 6 fixed, ((refl, refl), m, tt))))
simple_add false caller id mask (UnitShape x z half) c i m fixed =
    ((refl, refl), c, ((refl, refl), i, ((refl, refl), simple_decimals (x ∷ z ∷ half ∷ []) 6 fixed, tt)))
simple_add false caller id mask (SquareShape r) c i m fixed =
    ((refl, refl), c, ((refl, refl), i, ((refl, refl), simple_decimals (rectangle_decimals r) 6 fixed, tt)))

below_two : (version : ℕ) → nat_le 2 version ≡ false → version < 2
below_two version e = elim (leb_tells 2 version) [ inl h ↦ (let t = h.0 in absurd (cc)) | inr h ↦ h.1 ]

says_add : (masked : Bool) (version callers caller id mask : ℕ) (shape : Shape) → nat_le 2 version ≡ masked → (masked || mask == 65535) ≡ true → caller < callers
    → id ≤ 4294967295 → mask ≤ 65535 → AreFixed (shape_decimals shape)
    → IsPostLine version callers caller (Edits (Add id (record { shape = shape; mask = mask }))) (sorted (add_json masked caller id mask shape))
says_add true version callers caller id mask (UnitShape x z half) e has below few bits fixed =
    let shape = sorted (decimals_json (x ∷ z ∷ half ∷ [])) in (
      whole_json caller,
      whole_json id,
      shape,
      inr (
        leb-true 2 version e,
        (whole_json mask, with_mask (codes "caller") (codes "add") (codes "unit") (codes "mask") (whole_json caller) (whole_json id) shape (whole_json mask), refl, bits),
      ),
      (refl, below),
      (refl, few),
      says_decimals (x ∷ z ∷ half ∷ []) fixed,
    )
says_add true version callers caller id mask (SquareShape r) e has below few bits fixed =
    let shape = sorted (decimals_json (rectangle_decimals r)) in (
      whole_json caller,
      whole_json id,
      shape,
      inr (
        leb-true 2 version e,
        (whole_json mask, with_mask (codes "caller") (codes "add") (codes "square") (codes "mask") (whole_json caller) (whole_json id) shape (whole_json mask), refl, bits),
      ),
      (refl, below),
      (refl, few),
      says_decimals (rectangle_decimals r) fixed,
    )
says_add false version callers caller id mask (UnitShape x z half) e has below few bits fixed =
    let shape = sorted (decimals_json (x ∷ z ∷ half ∷ [])) in (
      whole_json caller,
      whole_json id,
      shape,
      inl (below_two version e, eqb-true mask 65535 has, second_first (codes "caller") (codes "add") (codes "unit") (whole_json caller) (whole_json id) shape),
      (refl, below),
      (refl, few),
      says_decimals (x ∷ z ∷ half ∷ []) fixed,
    )
says_add false version callers caller id mask (SquareShape r) e has below few bits fixed =
    let shape = sorted (decimals_json (rectangle_decimals r)) in (
      whole_json caller,
      whole_json id,
      shape,
      inl (below_two version e, eqb-true mask 65535 has, second_first (codes "caller") (codes "add") (codes "square") (whole_json caller) (whole_json id) shape),
      (refl, below),
      (refl, few),
      says_decimals (rectangle_decimals r) fixed,
    )

-- ---- post lines

simple_post : (version caller : ℕ) (post : Post) → caller < 2 ^ 64 → IsPostValue post → IsSimple (post_json version caller post) 8
unfolding post_json
simple_post version caller (Edits (Add id o)) c is =
    simple_add (nat_le 2 version) caller id o.mask o.shape c (small id 4294967295 (omega arith) is.0) (small o.mask 65535 (omega arith) is.2) is.1
simple_post version caller (Edits (Remove id)) c is = ((refl, refl), c, ((refl, refl), small id 4294967295 (omega arith) is, tt))
simple_post version caller (Edits (Move id x z)) c is =
    ((refl, refl), c, ((refl, refl), small id 4294967295 (omega arith) is.0, ((refl, refl), simple_decimals (x ∷ z ∷ []) 6 is.1, tt)))
simple_post version caller (Asks (Path request)) c is =
    let start = simple_decimals (request.x ∷ request.z ∷ []) 6 is.1 in
    ((refl, refl), c, ((refl, refl), text-name request.class is.0, ((refl, refl), start, ((refl, refl), simple_goal request.goal is.2, tt))))
simple_post version caller (Asks (Region query)) c is =
    ((refl, refl), c, ((refl, refl), text-name query.class is.0, ((refl, refl), simple_decimals (query.x ∷ query.z ∷ []) 6 is.1, tt)))

says_post : (version callers caller : ℕ) (post : Post) → caller < callers → IsPostValue post → is_post_of version post ≡ true
    → IsPostLine version callers caller post (sorted (post_json version caller post))
unfolding post_json
says_post version callers caller (Edits (Add id o)) below is has =
    says_add (nat_le 2 version) version callers caller id o.mask o.shape refl has below is.0 is.2 is.1
says_post version callers caller (Edits (Remove id)) below is has =
    (whole_json caller, whole_json id, two_keys (codes "caller") (codes "remove") (whole_json caller) (whole_json id), (refl, below), (refl, is))
says_post version callers caller (Edits (Move id x z)) below is has =
    let to = sorted (decimals_json (x ∷ z ∷ [])) in (
      whole_json caller,
      whole_json id,
      to,
      three_keys (codes "caller") (codes "move") (codes "to") (whole_json caller) (whole_json id) to,
      (refl, below),
      (refl, is.0),
      says_decimals (x ∷ z ∷ []) is.1,
      leb-true 3 version has,
    )
says_post version callers caller (Asks (Path request)) below is has =
    let from = sorted (decimals_json (request.x ∷ request.z ∷ [])) in let to = sorted (goal_json request.goal) in record {
      who = whole_json caller;
      path = string request.class;
      from = from;
      to = to;
      keys = second_last (codes "caller") (codes "path") (codes "from") (codes "goal") (whole_json caller) (string request.class) from to;
      says_caller = (refl, below);
      says_class = (refl, is.0);
      says_start = says_decimals (request.x ∷ request.z ∷ []) is.1;
      says_goal = says_goal version request.goal is.2 has;
    }
says_post version callers caller (Asks (Region query)) below is has =
    let place = sorted (decimals_json (query.x ∷ query.z ∷ [])) in record {
      who = whole_json caller;
      region = string query.class;
      place = place;
      keys = last_first (codes "caller") (codes "region") (codes "at") (whole_json caller) (string query.class) place;
      says_caller = (refl, below);
      says_class = (refl, is.0);
      says_place = says_decimals (query.x ∷ query.z ∷ []) is.1;
    }

pub post_back : (version callers caller : ℕ) (post : Post) → callers ≤ 64 → caller < callers → IsPostValue post → is_post_of version post ≡ true
    → ReadsTo (post_json version caller post) (λ d. post_of version callers d ≡ Some (record { caller = caller; post = post }))
post_back version callers caller post few below is has =
    reads_sorted (post_json version caller post) (λ d. post_of version callers d ≡ Some (record { caller = caller; post = post }))
    (simple_post version caller post (omega (arith, few, below)) is)
    (post-from version callers (sorted (post_json version caller post)) (record { caller = caller; post = post }) (says_post version callers caller post below is has))
