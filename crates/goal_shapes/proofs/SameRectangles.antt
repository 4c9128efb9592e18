-- Rectangles are one where their numbers are equal, and only there.
use Rattle.std.proofs.Common.{◌≡◌, ℤ, true, ap, ◌∙◌, ◌&&◌, int_eq}
use Rattle.std.proofs.lemmas.Bool.{and_parts, and_from}
use Rattle.std.proofs.lemmas.Bool.Decides.{Decides-int_eq}
use Rattle.fixed_point.specs.declared.plane.Rectangle.{Rectangle}

rectangle : (x z ux uz hw hh : ℤ) → Rectangle
rectangle x z ux uz hw hh = record { x = x; z = z; ux = ux; uz = uz; hw = hw; hh = hh }

same_fields : (a b : Rectangle) → a.x ≡ b.x → a.z ≡ b.z → a.ux ≡ b.ux → a.uz ≡ b.uz → a.hw ≡ b.hw → a.hh ≡ b.hh → a ≡ b
unfolding rectangle
same_fields a b x z ux uz hw hh =
    ap (λ n. rectangle n a.z a.ux a.uz a.hw a.hh) x ∙ ap (λ n. rectangle b.x n a.ux a.uz a.hw a.hh) z
    ∙ ap (λ n. rectangle b.x b.z n a.uz a.hw a.hh) ux ∙ ap (λ n. rectangle b.x b.z b.ux n a.hw a.hh) uz
    ∙ ap (λ n. rectangle b.x b.z b.ux b.uz n a.hh) hw ∙ ap (λ n. rectangle b.x b.z b.ux b.uz b.hw n) hh

pub same_rectangle : (a b : Rectangle)
    → (int_eq a.x b.x && (int_eq a.z b.z && (int_eq a.ux b.ux && (int_eq a.uz b.uz && (int_eq a.hw b.hw && int_eq a.hh b.hh))))) ≡ true → a ≡ b
same_rectangle a b same =
    let x = and_parts (int_eq a.x b.x) _ same in
    let z = and_parts (int_eq a.z b.z) _ x.1 in
    let ux = and_parts (int_eq a.ux b.ux) _ z.1 in
    let uz = and_parts (int_eq a.uz b.uz) _ ux.1 in
    let sides = and_parts (int_eq a.hw b.hw) (int_eq a.hh b.hh) uz.1 in
    same_fields a b ((Decides-int_eq a.x b.x).0 x.0) ((Decides-int_eq a.z b.z).0 z.0) ((Decides-int_eq a.ux b.ux).0 ux.0)
    ((Decides-int_eq a.uz b.uz).0 uz.0) ((Decides-int_eq a.hw b.hw).0 sides.0) ((Decides-int_eq a.hh b.hh).0 sides.1)

pub equal_numbers : (a b : Rectangle) → a ≡ b
    → (int_eq a.x b.x && (int_eq a.z b.z && (int_eq a.ux b.ux && (int_eq a.uz b.uz && (int_eq a.hw b.hw && int_eq a.hh b.hh))))) ≡ true
equal_numbers a b same =
    and_from (int_eq a.x b.x) _ ((Decides-int_eq a.x b.x).1 (ap (λ (r : Rectangle). r.x) same))
    (and_from (int_eq a.z b.z) _ ((Decides-int_eq a.z b.z).1 (ap (λ (r : Rectangle). r.z) same))
    (and_from (int_eq a.ux b.ux) _ ((Decides-int_eq a.ux b.ux).1 (ap (λ (r : Rectangle). r.ux) same))
    (and_from (int_eq a.uz b.uz) _ ((Decides-int_eq a.uz b.uz).1 (ap (λ (r : Rectangle). r.uz) same))
    (and_from (int_eq a.hw b.hw) _ ((Decides-int_eq a.hw b.hw).1 (ap (λ (r : Rectangle). r.hw) same))
    ((Decides-int_eq a.hh b.hh).1 (ap (λ (r : Rectangle). r.hh) same))))))
