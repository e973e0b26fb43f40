mod CommentLemmas
mod TextLemmas
