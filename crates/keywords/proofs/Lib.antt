mod Keywords
