-- Works that were begun.
use Rattle.std.specs.Prelude.{◌≡◌, List, [], ◌∷◌}
use Rattle.posts.specs.declared.posts.Post.{Post}
use Rattle.path_service.specs.Callers.{CallerId}
use Rattle.pathserve.specs.declared.works.Begun.{Begun}
use Rattle.pathserve.specs.declared.works.Begun.TheVariants.{There, Here}
use Rattle.pathserve.specs.inner.Works.{HasPosted}

-- the work of this caller: it promises to post these posts, or has done it
abbrev pub Begins : CallerId → List Post → Begun → Type 0
Begins id posts (There handle) = (handle.promise.caller.value.id ≡ id) × (handle.promise.posts.value ≡ posts)
Begins id posts (Here caller) = HasPosted id posts caller

-- the works of these callers, each of the posts in its place
abbrev pub BeginAll : List CallerId → List (List Post) → List Begun → Type 0
BeginAll [] [] [] = Unit {0}
BeginAll [] [] (begun ∷ works) = ⊥
BeginAll [] (posts ∷ lists) works = ⊥
BeginAll (id ∷ ids) [] works = ⊥
BeginAll (id ∷ ids) (posts ∷ lists) [] = ⊥
BeginAll (id ∷ ids) (posts ∷ lists) (begun ∷ works) = Begins id posts begun × BeginAll ids lists works
